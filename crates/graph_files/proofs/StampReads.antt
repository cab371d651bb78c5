-- What is written of a stamp is read as this stamp.
use Rattle.std.proofs.Common.{◌≡◌, ℕ, ◌+◌, ◌^◌, ◌<◌, ◌≤◌, Bool, true, false, List, [], ◌∷◌, ◌++◌, length, take, Option, Some, None, Ok, refl, sym, ap, subst, ◌∙◌, arith, append_assoc, length-append}
use Rattle.std.specs.Prelude.{◌==◌, ◌||◌}
use Rattle.std.specs.Int.{w64, to_le_bytes}
use Rattle.std.proofs.lemmas.Bool.Decides.{nat_tests}
use Rattle.std.proofs.lemmas.List.{take_all, take-append-le}
use Rattle.std.proofs.lemmas.Nat.{from_le_bytes-to_le_bytes_8}
use Rattle.graph_rows.specs.declared.stamp.Stamp.{Stamp}
use Rattle.graph_rows.specs.Index.{words, stamp_numbers, stamp_bytes, stamp_text, version_of}
use Rattle.graph_rows.specs.Stamps.{where_named, stamp_ranges, is_within, are_within, is_floor, IsStamp, IsStamped}
use Rattle.graph_files.specs.declared.header.Header.{Header}
use Rattle.graph_files.specs.Header.{is_version}
use Rattle.graph_files.specs.Grammar.{stamp_at, layers_place}
use Rattle.graph_files.specs.Stamping.{stamp_in, fields_fault, last_fault, stamp_fault}
use Rattle.graph_files.proofs.IndexLaws.{number}
use Rattle.graph_files.proofs.StampLaws.{split_true, fields_none, last_none, both_sound, no_stamp, stamp_read}
use Rattle.graph_files.proofs.TextReads.{length-words}

capped : (named : Bool) (least greatest n : ℕ) → is_within (where_named named least greatest) n ≡ true → n ≤ greatest
capped true least greatest n e = grind (arith, nat_tests)
capped false least greatest n e = grind (arith, nat_tests)

module _ (kind : ℕ) (s : Stamp) (is : IsStamp kind s) (a b c d e f g h : ℕ) where
  abbrev pub front : List ℕ
  front = words (a ∷ b ∷ c ∷ d ∷ e ∷ f ∷ g ∷ h ∷ []) ++ stamp_bytes s

  pub front_long : length front ≡ 136
  front_long =
      let hs = a ∷ b ∷ c ∷ d ∷ e ∷ f ∷ g ∷ h ∷ [] in
      let first : length front ≡ length (words hs) + length (stamp_bytes s) = length-append (words hs) (stamp_bytes s) in
      let second : length (stamp_bytes s) ≡ length (words (stamp_numbers s)) + length (to_le_bytes w64 s.seed ++ to_le_bytes w64 s.floor ++ s.digest) = length-append (words (stamp_numbers s)) (to_le_bytes w64 s.seed ++ to_le_bytes w64 s.floor ++ s.digest) in
      let third = length-append (to_le_bytes w64 s.seed) (to_le_bytes w64 s.floor ++ s.digest) in
      let fourth = length-append (to_le_bytes w64 s.floor) s.digest in
      let eight : (n : ℕ) → length (to_le_bytes w64 n) ≡ 8 = λ n. refl in
      omega (arith, first, second, third, fourth, eight s.seed, eight s.floor, length-words hs, length-words (stamp_numbers s), is.digest)

  pub stamp_here : stamp_in front ≡ s
  stamp_here =
      let in_batches : Bool = kind == 1 || kind == 2 in
      let flat : Bool = kind == 1 || kind == 3 in
      let w0 = split_true (is_within (1, 2) s.element) _ is.words in
      let w1 = split_true (is_within (where_named in_batches 1 2) s.order) _ w0.1 in
      let w2 = split_true (is_within (where_named flat 1 2) s.start_kind) _ w1.1 in
      let w3 = split_true (is_within (where_named in_batches 1 1024) s.beam) _ w2.1 in
      let w4 = split_true (is_within (where_named flat 1 1000) s.num) _ w3.1 in
      let w5 = split_true (is_within (where_named flat 1 s.num) s.den) _ w4.1 in
      let w6 = split_true (is_within (where_named in_batches 1 4194304) s.cap) _ w5.1 in
      let w7 = split_true (is_within (where_named (kind == 2) 1 8) s.bits) _ w6.1 in
      let w8 = split_true (is_within (where_named (kind == 2) 0 15) s.max_level) _ w7.1 in
      let w9 = split_true (is_within (where_named (kind == 3) 1 128) s.list) _ w8.1 in
      let w10 = split_true (is_within (where_named (kind == 3) 1 64) s.trees) _ w9.1 in
      let w11 = split_true (is_within (where_named (kind == 3) 2 1024) s.leaf) _ w10.1 in
      let w12 = split_true (is_within (where_named (kind == 3) 0 64) s.rounds) _ w11.1 in
      let w13 = split_true (is_within (where_named (kind == 1) 1 2) s.passes) _ w12.1 in
      let n0 = number s.element (omega (arith, capped true 1 2 s.element w0.0)) in
      let n1 = number s.order (omega (arith, capped in_batches 1 2 s.order w1.0)) in
      let n2 = number s.start_kind (omega (arith, capped flat 1 2 s.start_kind w2.0)) in
      let n3 = number s.beam (omega (arith, capped in_batches 1 1024 s.beam w3.0)) in
      let n4 = number s.num (omega (arith, capped flat 1 1000 s.num w4.0)) in
      let n5 = number s.den (omega (arith, capped flat 1 1000 s.num w4.0, capped flat 1 s.num s.den w5.0)) in
      let n6 = number s.cap (omega (arith, capped in_batches 1 4194304 s.cap w6.0)) in
      let n7 = number s.bits (omega (arith, capped (kind == 2) 1 8 s.bits w7.0)) in
      let n8 = number s.max_level (omega (arith, capped (kind == 2) 0 15 s.max_level w8.0)) in
      let n9 = number s.list (omega (arith, capped (kind == 3) 1 128 s.list w9.0)) in
      let n10 = number s.trees (omega (arith, capped (kind == 3) 1 64 s.trees w10.0)) in
      let n11 = number s.leaf (omega (arith, capped (kind == 3) 2 1024 s.leaf w11.0)) in
      let n12 = number s.rounds (omega (arith, capped (kind == 3) 0 64 s.rounds w12.0)) in
      let n13 = number s.passes (omega (arith, capped (kind == 1) 1 2 s.passes w13.0)) in
      let seed = from_le_bytes-to_le_bytes_8 s.seed is.seed_fits in
      let floor = from_le_bytes-to_le_bytes_8 s.floor is.floor_fits in
      let digest : take 32 s.digest ≡ s.digest = take_all 32 s.digest (omega (arith, is.digest)) in
      λ i. record {
        element = n0 i;
        order = n1 i;
        start_kind = n2 i;
        beam = n3 i;
        num = n4 i;
        den = n5 i;
        cap = n6 i;
        bits = n7 i;
        max_level = n8 i;
        list = n9 i;
        trees = n10 i;
        leaf = n11 i;
        rounds = n12 i;
        passes = n13 i;
        seed = seed i;
        floor = floor i;
        digest = digest i;
      }

  pub stamp_sound : stamp_fault kind front ≡ None
  stamp_sound =
      let here = stamp_here in
      let within : are_within (stamp_ranges kind (stamp_in front).num) (stamp_numbers (stamp_in front)) ≡ true = subst (λ (x : Stamp). are_within (stamp_ranges kind x.num) (stamp_numbers x) ≡ true) (sym here) is.words in
      let floor : is_floor kind (stamp_in front).floor ≡ true = subst (λ (x : Stamp). is_floor kind x.floor ≡ true) (sym here) is.floor in
      both_sound (fields_fault (stamp_ranges kind (stamp_in front).num) front 32) (last_fault kind front)
      (fields_none (stamp_ranges kind (stamp_in front).num) front 32 (omega (arith, front_long)) within) (last_none kind front (omega (arith, front_long)) floor)

  pub front_taken : (rest : List ℕ) → front ≡ take 136 (words (a ∷ b ∷ c ∷ d ∷ e ∷ f ∷ g ∷ h ∷ []) ++ stamp_bytes s ++ rest)
  front_taken rest =
      sym (ap (take 136) (sym (append_assoc (words (a ∷ b ∷ c ∷ d ∷ e ∷ f ∷ g ∷ h ∷ [])) (stamp_bytes s) rest)) ∙ take-append-le 136 front rest (omega (arith, front_long)) ∙ take_all 136 front (omega (arith, front_long)))

pub version_small : (stamp : Option Stamp) → version_of stamp < 2 ^ 32
version_small None = omega arith
version_small (Some s) = omega arith

pub version_read : (stamp : Option Stamp) → is_version (version_of stamp) ≡ true
version_read None = refl
version_read (Some s) = refl

pub place_is : (kind : ℕ) (stamp : Option Stamp) → IsStamped kind stamp → layers_place (version_of stamp) ≡ 32 + length (stamp_text stamp)
place_is kind None is = refl
place_is kind (Some s) is = let long = front_long kind s is 0 0 0 0 0 0 0 0 in let two = length-append (words (0 ∷ 0 ∷ 0 ∷ 0 ∷ 0 ∷ 0 ∷ 0 ∷ 0 ∷ [])) (stamp_bytes s) in omega (arith, long, two)

-- the stamp of a text
pub stamp_of_text : (stamp : Option Stamp) (head : Header) (rest : List ℕ) → IsStamped head.kind stamp → head.version ≡ version_of stamp
    → stamp_at head (words (head.magic ∷ head.version ∷ head.kind ∷ head.count ∷ head.dim ∷ head.degree ∷ head.start ∷ head.layers ∷ []) ++ stamp_text stamp ++ rest) ≡ Ok stamp
stamp_of_text None head rest is version = no_stamp head _ version
stamp_of_text (Some s) head rest is version =
    stamp_read head _ (front head.kind s is head.magic head.version head.kind head.count head.dim head.degree head.start head.layers) s (λ e. absurd (omega (arith, e, version)))
    (front_taken head.kind s is head.magic head.version head.kind head.count head.dim head.degree head.start head.layers rest)
    (stamp_sound head.kind s is head.magic head.version head.kind head.count head.dim head.degree head.start head.layers)
    (sym (stamp_here head.kind s is head.magic head.version head.kind head.count head.dim head.degree head.start head.layers))
