-- That a look at every record finds what refusals 11 and 5 ask.
pub mod Looks
