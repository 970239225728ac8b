pub mod ValuePuts
