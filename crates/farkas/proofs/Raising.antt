-- The numbers of the variables, the last step first.
use Rattle.std.proofs.Common.{◌≡◌, refl, ap, ◌∙◌, List, [], ◌∷◌, ◌++◌, Bool, true, false}
use Rattle.std.specs.Prelude.{◌&&◌}
use Rattle.farkas.specs.declared.placing.Placed.{Placed}
use Rattle.farkas.specs.declared.placing.Level.{Level}
use Rattle.farkas.specs.Placing.{raised, raised_fits, with_number, number_fits}

pub raised_push : (ls : List Level) (l : Level) (p : Placed) → raised (ls ++ l ∷ []) p ≡ raised ls (with_number l.var l.rows p)
raised_push [] l p = refl
raised_push (k ∷ ks) l p = ap (with_number k.var k.rows) (raised_push ks l p)

assoc : (a b c : Bool) → ((a && b) && c) ≡ (a && (b && c))
assoc true b c = refl
assoc false b c = refl

pub fits_push : (ls : List Level) (l : Level) (p : Placed) → raised_fits (ls ++ l ∷ []) p ≡ (number_fits l.var l.rows p && raised_fits ls (with_number l.var l.rows p))
fits_push [] l p = both (number_fits l.var l.rows p)
  where
    both : (b : Bool) → (true && b) ≡ (b && true)
    both true = refl
    both false = refl
fits_push (k ∷ ks) l p =
    ap (λ (b : Bool). b && number_fits k.var k.rows (raised (ks ++ l ∷ []) p)) (fits_push ks l p)
    ∙ ap (λ (q : Placed). (number_fits l.var l.rows p && raised_fits ks (with_number l.var l.rows p)) && number_fits k.var k.rows q) (raised_push ks l p)
    ∙ assoc (number_fits l.var l.rows p) (raised_fits ks (with_number l.var l.rows p)) (number_fits k.var k.rows (raised ks (with_number l.var l.rows p)))
