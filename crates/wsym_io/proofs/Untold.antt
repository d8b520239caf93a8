-- What holds at each outcome holds of the result.
use Rattle.std.proofs.Common.{Result, Ok, Err, IfOk, OnErr}

pub if_ok : {T E : Type 0} (r : Result T E) (P : T → Type 0) → ((t : T) → P t) → IfOk r P
if_ok (Ok t) P h = h t
if_ok (Err e) P h = tt

pub on_err : {T E : Type 0} (r : Result T E) (P : Type 0) → P → OnErr r P
on_err (Ok t) P h = tt
on_err (Err e) P h = h
