mod Texts
mod ReadBack
mod Hexes
mod Printed
mod Calls
mod Stretches
