-- Steps that may give nothing.
use Rattle.std.proofs.Common.{◌≡◌, ap}
use Rattle.std.specs.Prelude.{Option, Some, None}
use Rattle.std.specs.Option.{option_map, option_and_then}

pub then_some : {X Y : Type 0} (f : X → Option Y) (o : Option X) (x : X) → o ≡ Some x → option_and_then f o ≡ f x
then_some f o x e = ap (option_and_then f) e

pub then_none : {X Y : Type 0} (f : X → Option Y) (o : Option X) → o ≡ None → option_and_then f o ≡ None
then_none f o e = ap (option_and_then f) e

pub map_some : {X Y : Type 0} (f : X → Y) (o : Option X) (x : X) → o ≡ Some x → option_map f o ≡ Some (f x)
map_some f o x e = ap (option_map f) e

pub map_none : {X Y : Type 0} (f : X → Y) (o : Option X) → o ≡ None → option_map f o ≡ None
map_none f o e = ap (option_map f) e

pub ruleset options = (then_some, then_none, map_some, map_none)
