mod Collecting
mod Closing
