-- The names that most proofs here cite, passed on from one place. Declares nothing.
pub use Rattle.df_filter.specs.declared.clause.Clause.{Clause}
pub use Rattle.df_filter.specs.declared.field_test.FieldTest.{FieldTest}
pub use Rattle.df_filter_text.specs.FieldTest.{field_test_text}
pub use Rattle.df_filter_text.specs.Filter.{clause_text, filter_text, test_text}
pub use Rattle.df_filter_text.specs.Fits.{AreClauses, IsClause, IsFieldTest, IsFilter, IsTest}
pub use Rattle.df_filter_text.specs.ReadFilter.{Placed, clause_at, clause_of, clauses_of, filter_at, key_at, key_of, leads_clause, next_clause_at, placed_at, placed_clauses_at, present_at, test_at, test_of, value_test_at, with_room}
pub use Rattle.df_format.proofs.Choices.{byte_refuses, either_by, either_of}
pub use Rattle.df_format.proofs.ItemSteps.{format_shrinks}
pub use Rattle.df_format.proofs.Items.{Follow, ItemsFit, Leads, Parts, items_format, items_goes, last_ends_at, last_goes}
pub use Rattle.df_format.proofs.Joins.{behind_format, closed_format, viewed}
pub use Rattle.df_format.proofs.Laws.{ends_never, ends_of, first_bad, not_both, ok_is}
pub use Rattle.df_format.proofs.Texts.{IsText, own, text_format}
pub use Rattle.df_format.proofs.Thens.{ThenFits, then_goes, then_second_format}
pub use Rattle.df_format.proofs.Tokens.{Of, fitting, made, nowhere, nowhere_is_local, told_as}
pub use Rattle.df_format.specs.Format.{Ends, Format}
pub use Rattle.df_format.specs.Grammar.{FirstBad}
pub use Rattle.df_format.specs.Reading.{Bad, Low, Read, Stop, as_at, behind_at, closed_at, either_at, then_at, ◌>>=◌}
pub use Rattle.df_format.specs.Spelling.{items_spell, then_spell}
pub use Rattle.df_value_text.proofs.NameLaws.{IsName, name_format, name_goes}
pub use Rattle.df_value_text.specs.Number.{begins_with}
pub use Rattle.df_value_text.specs.ReadTag.{listed}
pub use Rattle.std.proofs.Common.{Bool, Err, List, None, Ok, Option, Result, Some, [], ap, arith, cond, drop, eq-eqb, eqb, false, inl, inr, length, length-drop, map, nat_lt, pos, refl, subst, sym, true, ℕ, ℤ, ◌++◌, ◌+◌, ◌-◌, ◌<◌, ◌∙◌, ◌∷◌, ◌≡◌, ◌≤◌, ◌⊎◌}
pub use Rattle.std.proofs.lemmas.Bool.{and_parts, eqb-true}
pub use Rattle.std.proofs.lemmas.Bool.Decides.{nat_tests}
pub use Rattle.std.proofs.lemmas.List.{append-nil, length_push, map-append}
pub use Rattle.std.specs.Char.{is_ascii_digit}
