-- One more item behind others.
pub use Rattle.df_label.proofs.Joins.{item_appended}
