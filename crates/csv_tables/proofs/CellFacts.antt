-- These rules turn a number into its cell and back.
use Rattle.std.proofs.lemmas.Int.{of_z-to_z, to_z-of_z}

pub ruleset cell_steps = (of_z-to_z, to_z-of_z)
