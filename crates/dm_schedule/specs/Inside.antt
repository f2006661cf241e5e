-- How a schedule is made. Who believes what it promises need not read this.
pub mod Keys
