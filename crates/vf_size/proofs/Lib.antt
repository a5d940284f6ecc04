mod Nodes
mod Times
mod ValueLemmas
