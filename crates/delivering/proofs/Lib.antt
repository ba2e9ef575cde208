-- Laws of a request that is heard.
mod DeliveringLaws
