pub mod Alike
pub mod Alternatives
pub mod Certificate
pub mod Counterexamples
pub mod Optimal
pub mod Order
pub mod Outcomes
pub mod Rule
