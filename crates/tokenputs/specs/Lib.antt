pub mod TokenPuts
