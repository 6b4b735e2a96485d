-- That the checks of the code are the refusals of the day, by a survey of its table. Read in this order.
pub mod Checked
