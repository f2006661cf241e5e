-- States of loops, and stages of rebasing. Who believes what windows promise need not read them.
pub mod Standing
pub mod Carrying
pub mod Thinning
