mod Owns
mod Two
