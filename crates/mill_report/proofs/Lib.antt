mod Listed
mod Alone
mod Listings
mod Rowwise
mod Passing
mod Steps
mod Found
mod Lefts
