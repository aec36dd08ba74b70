mod Written
mod After
