pub mod OfferReads
