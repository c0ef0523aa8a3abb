pub mod Network
pub mod Grid
pub mod MeshRoutes
pub mod Meshes
pub mod MeshLaws
