pub mod StartReads
