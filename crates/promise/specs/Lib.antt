pub mod Clean
pub mod Offers
pub mod Questions
pub mod Canonical
pub mod Droppings
pub mod Tabled
pub mod Used
