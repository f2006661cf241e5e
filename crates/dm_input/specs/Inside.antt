-- What the stages of reading pass on to each other. Who believes what words and files determine need not read them.
pub mod Stages
