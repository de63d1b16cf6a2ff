mod Inverting
mod Params
mod SetLimits
mod Rows
mod Quiet
mod Listing
