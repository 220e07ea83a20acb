-- What the pass over a table has done after i stations.
mod Passes
