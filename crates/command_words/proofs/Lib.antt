mod Digits
mod Marks
mod Parameters
mod Spelling
