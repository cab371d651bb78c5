pub mod Words
pub mod Numbers
pub mod ValueTexts
pub mod Rules
pub mod Parts
pub mod Asked
