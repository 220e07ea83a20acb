mod Tells
mod Setting
