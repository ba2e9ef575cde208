-- The laws behind `print`, from what is found in the bytes to the whole printout, and document 01's worked printout.
pub mod PuttingLaws
