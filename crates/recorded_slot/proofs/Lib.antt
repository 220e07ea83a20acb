-- What the proofs of the functions share.
mod Told
mod Stretches
