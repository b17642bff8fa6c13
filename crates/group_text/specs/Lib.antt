pub mod Texts
pub mod Laws
pub mod Local
pub mod Compared
pub mod FirstTexts
pub mod Words
