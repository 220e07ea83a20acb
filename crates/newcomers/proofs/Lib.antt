mod Minislots
