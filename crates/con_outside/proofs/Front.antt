use Rattle.std.proofs.Common.{ℕ, ◌≡◌, ◌+◌, ◌-◌, ◌≤◌, List, ◌++◌, length, take, drop, arith, length-drop, sym, ap, ◌∙◌}
use Rattle.std.proofs.lemmas.List.{take_all, take-append-drop, length-take-le}
use Rattle.std.proofs.Math.Seq.{take-append_seam}
use Rattle.std.proofs.lemmas.Grind.{common_steps}

drop_on : (i n : ℕ) (xs : List ℕ) → drop (i + n) xs ≡ drop n (drop i xs)
drop_on i n xs = grind (arith, common_steps)

-- the front that was written over is what was written
written_front : (front rest : List ℕ) (n : ℕ) → n ≡ length front → take n (front ++ rest) ≡ front
written_front front rest n is = rw is (take-append_seam front rest)

pub front_taken : (bytes buf front : List ℕ) (at n : ℕ) → front ≡ take n (take (length bytes - at) (drop at bytes)) → n ≤ length bytes - at
    → drop at bytes ≡ take n (front ++ drop n buf) ++ drop (at + n) bytes
front_taken bytes buf front at n is fits =
    let all : take (length bytes - at) (drop at bytes) ≡ drop at bytes = take_all (length bytes - at) (drop at bytes) (omega (arith, length-drop at bytes)) in
    let it : front ≡ take n (drop at bytes) = is ∙ ap (take n) all in
    let long : n ≡ length front = rw it (sym (length-take-le n (drop at bytes) (omega (arith, length-drop at bytes)))) in
    sym (rw (written_front front (drop n buf) n long, drop_on at n bytes, it) (take-append-drop n (drop at bytes)))
