mod Blanks
mod Listings
