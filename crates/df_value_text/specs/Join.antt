-- Items with a byte between each two.
pub use Rattle.df_label.specs.Spelling.{joined}
