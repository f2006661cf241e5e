-- Texts that are put one behind another.
use Rattle.std.proofs.Common.{ℕ, List, ◌++◌, Option, Result, Ok, Err}
use Rattle.dm_outside.specs.Printing.{TakesAll, TakesFront, Puts}
use Rattle.dm_outside.proofs.Printing.{takes_then, takes_fault, fault_more}

module _ {K : Type 0} (taken : K → Option (List ℕ)) (faults : K → ℕ) where
  -- a text, and what comes behind it
  puts_behind : {E : Type 0} (a b c : K) (x y : List ℕ) (result : Result (Unit {0}) E) → TakesAll taken faults a b x → Puts taken faults b c result y → Puts taken faults a c result (x ++ y)
  puts_behind a b c x y (Ok done) all p = takes_then all p
  puts_behind a b c x y (Err fault) all p = takes_fault all p

  puts_four : {E : Type 0} (a b c d e : K) (w x y z : List ℕ) (result : Result (Unit {0}) E) → TakesAll taken faults a b w → TakesAll taken faults b c x → TakesAll taken faults c d y → Puts taken faults d e result z →
      Puts taken faults a e result (w ++ (x ++ (y ++ z)))
  puts_four a b c d e w x y z result one two three last =
      puts_behind a b e w (x ++ (y ++ z)) result one (puts_behind b c e x (y ++ z) result two (puts_behind c d e y z result three last))

  pub puts_five : {E : Type 0} (a b c d e f : K) (v w x y z : List ℕ) (result : Result (Unit {0}) E) → TakesAll taken faults a b v → TakesAll taken faults b c w → TakesAll taken faults c d x → TakesAll taken faults d e y → Puts taken faults e f result z →
      Puts taken faults a f result (v ++ (w ++ (x ++ (y ++ z))))
  puts_five a b c d e f v w x y z result one two three four last =
      puts_behind a b f v (w ++ (x ++ (y ++ z))) result one (puts_four b c d e f w x y z result two three four last)

  -- a fault in the second, the third or the fourth
  pub fault_second : (a b c : K) (w x rest : List ℕ) → TakesAll taken faults a b w → TakesFront taken faults b c x → TakesFront taken faults a c (w ++ (x ++ rest))
  fault_second a b c w x rest one fault = takes_fault one (fault_more rest fault)

  pub fault_third : (a b c d : K) (w x y rest : List ℕ) → TakesAll taken faults a b w → TakesAll taken faults b c x → TakesFront taken faults c d y → TakesFront taken faults a d (w ++ (x ++ (y ++ rest)))
  fault_third a b c d w x y rest one two fault = takes_fault one (fault_second b c d x y rest two fault)

  pub fault_fourth : (a b c d e : K) (w x y z rest : List ℕ) → TakesAll taken faults a b w → TakesAll taken faults b c x → TakesAll taken faults c d y → TakesFront taken faults d e z → TakesFront taken faults a e (w ++ (x ++ (y ++ (z ++ rest))))
  fault_fourth a b c d e w x y z rest one two three fault = takes_fault one (fault_third b c d e x y z rest two three fault)
