-- The words of texts that clauses cite, from one place.
pub use Rattle.group_text.specs.Texts.{GroupTextData, firsts, local_nodes, text_of_group, IsText, IsSmall}
pub use Rattle.group_text.specs.Compared.{same_text}
pub use Rattle.group_text.specs.FirstTexts.{is_among, first_texts, new_texts}
