-- How many digits the numbers of a line have at most.
use Rattle.std.specs.Prelude.{IfSome}
use Rattle.mill_words.specs.Words.{FitsNum}
use Rattle.mill_said.specs.declared.machine_said.MachineSaid.{MachineSaid}
use Rattle.mill_said.specs.declared.said.Said.{Said}

-- the axis numbers have at most 18 digits
pub record FitsSaid (s : Said) : Type 0 where
  pub x_fits : IfSome s.x (FitsNum 18)
  pub y_fits : IfSome s.y (FitsNum 18)
  pub z_fits : IfSome s.z (FitsNum 18)

-- the numbers of a line for a machine have at most 18 digits
pub record FitsTold (s : MachineSaid) : Type 0 where
  pub x_fits : IfSome s.x (FitsNum 18)
  pub y_fits : IfSome s.y (FitsNum 18)
  pub z_fits : IfSome s.z (FitsNum 18)
  pub r_fits : IfSome s.r (FitsNum 18)
  pub q_fits : IfSome s.q (FitsNum 18)
  pub h_fits : IfSome s.h (FitsNum 18)
  pub p_fits : IfSome s.p (FitsNum 18)
  pub i_fits : IfSome s.i (FitsNum 18)
  pub j_fits : IfSome s.j (FitsNum 18)
  pub k_fits : IfSome s.k (FitsNum 18)
