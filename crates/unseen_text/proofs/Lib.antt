pub mod TextWalks
