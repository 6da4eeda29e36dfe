-- What is answered of entries: how many there are, and their bytes together; the question that was answered no where there is one.
use Rattle.std.specs.Prelude.{ℕ, ◌≡◌, List, length, Result, Ok}
use Rattle.std.proofs.Common.{sym, ap}
use Rattle.laws.specs.Fold.{sum}
use Rattle.laws.specs.Cut.{lengths}
use Rattle.refusal.specs.Refusal.{ok_unless, unless_yes}
use Rattle.refusal.specs.declared.Refusal.{Refusal}
use Rattle.range.specs.Form.{Entry}
use Rattle.range.specs.declared.Count.{Count}

abbrev pub count_of : List Entry → Count
count_of es = record { entries = length es; bytes = sum (lengths es) }

abbrev pub scanned : ℕ → List Entry → Result Count Refusal
scanned q es = ok_unless q (count_of es)

-- the number and the values, from the answer
pub scanned_total : (q : ℕ) (c : Count) (es : List Entry) → Ok c ≡ scanned q es → (q ≡ 0) × (c.entries ≡ length es) × (c.bytes ≡ sum (lengths es))
scanned_total q c es h =
    let f = unless_yes q (count_of es) c (sym h) in
    (f.0, sym (ap (λ (k : Count). k.entries) f.1), sym (ap (λ (k : Count). k.bytes) f.1))
