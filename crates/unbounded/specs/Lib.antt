-- Figure 3, the unbounded single-writer method, as the step machine of document 01. Read in this order.
pub mod Registers
pub mod Processes
pub mod Turns
pub mod Days
pub mod MarkedDays
pub mod RefusedDays
pub mod RunDays
pub mod Figure3
