-- Laws of a request that is made.
mod InvokingLaws
