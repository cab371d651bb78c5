-- Answers that stand one after another.
use Rattle.std.proofs.Common.{◌≡◌, ◌∙◌, ◌+◌, ◌-◌, List, [], ◌∷◌, ◌++◌, length, map, take, drop, refl, sym, ap, arith, length-drop}
use Rattle.std.specs.List.{All}
use Rattle.std.proofs.lemmas.List.{map-append, take-append-le, drop-append-le, drop_at, take_all}
use Rattle.std.proofs.lemmas.List.Elements.{All-head, All-tail}
use Rattle.ann_defs.specs.declared.near.Near.{Near}
use Rattle.live_session.specs.declared.row.Mark.{Mark}
use Rattle.live_session.specs.Rows.{answer_in, IsWithin}

-- an answer stays where others come after it
answer_stays : (nears more : List Near) (m : Mark) → IsWithin (length nears) m → answer_in (nears ++ more) m ≡ answer_in nears m
answer_stays nears more m h =
    let rest : length (drop m.from nears) ≡ length nears - m.from = length-drop m.from nears in
    let cut : drop m.from (nears ++ more) ≡ drop m.from nears ++ more = drop-append-le m.from nears more (omega (arith, h.0, h.1)) in
    let same : take (m.to - m.from) (drop m.from (nears ++ more)) ≡ take (m.to - m.from) (drop m.from nears) =
    ap (take (m.to - m.from)) cut ∙ take-append-le (m.to - m.from) (drop m.from nears) more (omega (arith, h.0, h.1, rest)) in
    λ i. (m.batch, same i)

answers_stay : (nears more : List Near) (marks : List Mark) → All (IsWithin (length nears)) marks → map (answer_in (nears ++ more)) marks ≡ map (answer_in nears) marks
answers_stay nears more [] h = refl
answers_stay nears more (m ∷ marks) h =
    let first = answer_stays nears more m (All-head (IsWithin (length nears)) m marks h) in
    let rest = answers_stay nears more marks (All-tail (IsWithin (length nears)) m marks h) in
    λ i. first i ∷ rest i

-- the mark of what comes after all
answer_new : (nears more : List Near) (m : Mark) → m.from ≡ length nears → m.to ≡ length nears + length more → answer_in (nears ++ more) m ≡ (m.batch, more)
answer_new nears more m from to =
    let cut : drop m.from (nears ++ more) ≡ more = drop_at nears more m.from (sym from) in
    let all : take (m.to - m.from) more ≡ more = take_all (m.to - m.from) more (omega (arith, from, to)) in
    let same : take (m.to - m.from) (drop m.from (nears ++ more)) ≡ more = ap (take (m.to - m.from)) cut ∙ all in
    λ i. (m.batch, same i)

pub answers_more : (nears more : List Near) (marks : List Mark) (m : Mark) → All (IsWithin (length nears)) marks → m.from ≡ length nears → m.to ≡ length nears + length more → map (answer_in (nears ++ more)) (marks ++ m ∷ []) ≡ map (answer_in nears) marks ++ (m.batch, more) ∷ []
answers_more nears more marks m h from to =
    let old = answers_stay nears more marks h in
    let new = answer_new nears more m from to in
    map-append (answer_in (nears ++ more)) marks (m ∷ []) ∙ (λ i. old i ++ new i ∷ [])
