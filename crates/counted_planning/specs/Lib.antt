pub use Rattle.counting.specs.Bounds
