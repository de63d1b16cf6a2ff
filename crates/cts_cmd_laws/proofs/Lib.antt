mod Bytes
mod Spelled
mod Fields
mod Contents
mod Existing
mod Standing
mod Kept
