-- Records of an image, one off the front, and the two round trips.
use Rattle.std.proofs.Common.{◌≡◌, ℕ, suc, ◌+◌, ◌-◌, ◌*◌, ◌/◌, ◌%◌, ◌<◌, ◌≤◌, true, leb, List, [], ◌∷◌, ◌++◌, map, length, get_or, take, drop, set, Result, sym, refl, ap, ap₂, ◌∙◌, append_assoc, arith, length-set, le-leb, leb-true}
use Rattle.std.proofs.lemmas.List.{take_rest, take_more_set, take_more}
use Rattle.std.proofs.lemmas.Bool.{and_parts}
use Rattle.refusal.specs.declared.Refusal.{Refusal}
use Rattle.storage.specs.Word.{eighteen, data_of, protect_bit, parity_bit}
use Rattle.storage.specs.Image.{record_of, record_word, words_of, bytes_of, all_flags_fit, fits, SameWords}

-- one record off the front
pub front : (xs : List ℕ) → 3 ≤ length xs → get_or xs 0 0 ∷ (get_or xs 1 0 ∷ (get_or xs 2 0 ∷ drop 3 xs)) ≡ xs
front [] h = absurd (omega arith)
front (t ∷ []) h = absurd (omega arith)
front (t ∷ (a ∷ [])) h = absurd (omega arith)
front (t ∷ (a ∷ (l ∷ rest))) h = refl

words_more : (xs : List ℕ) → 3 ≤ length xs → words_of xs ≡ (get_or xs 0 0 * 65536 + get_or xs 1 0 * 256 + get_or xs 2 0) ∷ words_of (drop 3 xs)
words_more xs h = ap words_of (sym (front xs h))

pub bytes_append : (us ws : List ℕ) → bytes_of (us ++ ws) ≡ bytes_of us ++ bytes_of ws
bytes_append [] ws = refl
bytes_append (u ∷ us) ws = rw (bytes_append us ws)

-- a word made of three bytes is kept in those three bytes
record_bytes : (a b d : ℕ) → a ≤ 3 → b < 256 → d < 256 → bytes_of (record_word a b d ∷ []) ≡ a ∷ (b ∷ (d ∷ []))
record_bytes a b d ha hb hd =
    let w : ℕ = record_word a b d in
    let sixteen : data_of w ≡ b * 256 + d = omega arith in
    let p : w / 65536 ≡ a = omega arith in
    let q : w / 131072 ≡ a / 2 = omega arith in
    let x : protect_bit w + 2 * parity_bit w ≡ a = rw (p, q) (omega arith) in
    let y : data_of w / 256 ≡ b = rw sixteen (omega arith) in
    let z : data_of w % 256 ≡ d = rw sixteen (omega arith) in rw (x, y, z)

-- a file whose flags fit is the file of its words
pub bytes_words : (image : List ℕ) (n : ℕ) → length image ≡ 3 * n → all_flags_fit image ≡ true → ((k : ℕ) → get_or image k 0 < 256) → bytes_of (words_of image) ≡ image
bytes_words [] n h t s = refl
bytes_words (a ∷ []) n h t s = absurd (omega arith)
bytes_words (a ∷ (b ∷ [])) n h t s = absurd (omega arith)
bytes_words (a ∷ (b ∷ (d ∷ rest))) n h t s =
    let f = and_parts (leb a 3) (all_flags_fit rest) t in
    let more = bytes_words rest (n - 1) (omega arith) f.1 (λ k. s (suc (suc (suc k)))) in
    ap₂ (λ (xs ys : List ℕ). xs ++ ys) (record_bytes a b d (leb-true a 3 f.0) (s 1) (s 2)) more

-- one turn of decoding: the word v at i, of the first record of what is left
module _ (core rest : List ℕ) (i v : ℕ) (h : i < length core) (k : 3 ≤ length rest) (e : v ≡ record_word (get_or rest 0 0) (get_or rest 1 0) (get_or rest 2 0)) where
  pub words_turn : (ws : List ℕ) → take i core ++ words_of rest ≡ ws → take (i + 1) (set core i v) ++ words_of (take (length rest - 3) (drop 3 rest)) ≡ ws
  words_turn ws inv =
      rw (take_more_set core i v h, take_rest rest 3, append_assoc) (rw e (rw (words_more rest k) at inv))

-- one turn of encoding: three bytes more
module _ (image core : List ℕ) (i : ℕ) (h : i < length core) (n : length image ≡ 3 * length core) (inv : take (3 * i) image ≡ bytes_of (take i core)) where
  three_more : (a b d : ℕ) → take (3 * i + 1 + 1 + 1) (set (set (set image (3 * i) a) (3 * i + 1) b) (3 * i + 1 + 1) d) ≡ take (3 * i) image ++ (a ∷ (b ∷ (d ∷ [])))
  three_more a b d =
      let l1 : length (set image (3 * i) a) ≡ length image = length-set image (3 * i) a in
      let l2 : length (set (set image (3 * i) a) (3 * i + 1) b) ≡ length image = length-set (set image (3 * i) a) (3 * i + 1) b ∙ l1 in
      let e1 = take_more_set image (3 * i) a (omega arith) in
      let e2 = take_more_set (set image (3 * i) a) (3 * i + 1) b (omega arith) in
      let e3 = take_more_set (set (set image (3 * i) a) (3 * i + 1) b) (3 * i + 1 + 1) d (omega arith) in
      rw (e3, e2, e1, append_assoc, append_assoc)

  pub image_turn : (r : List ℕ) → r ≡ record_of (get_or core i 0) → take (3 * (i + 1)) (set (set (set image (3 * i) (get_or r 0 0)) (3 * i + 1) (get_or r 1 0)) (3 * i + 2) (get_or r 2 0)) ≡ bytes_of (take (i + 1) core)
  image_turn r e =
      let w : ℕ = get_or core i 0 in
      let p : 3 * (i + 1) ≡ 3 * i + 1 + 1 + 1 = omega arith in
      let q : 3 * i + 2 ≡ 3 * i + 1 + 1 = omega arith in
      rw (e, p, q, three_more (protect_bit w + 2 * parity_bit w) (data_of w / 256) (data_of w % 256), take_more core i 0 h, bytes_append (take i core) (get_or core i 0 ∷ []), inv)

-- a core that was encoded comes back
flags_bytes : (ws : List ℕ) → all_flags_fit (bytes_of ws) ≡ true
flags_bytes [] = refl
flags_bytes (w ∷ ws) = let t : leb (protect_bit w + 2 * parity_bit w) 3 ≡ true = le-leb _ 3 (omega arith) in rw t (flags_bytes ws)

words_bytes : (ws : List ℕ) → words_of (bytes_of ws) ≡ map eighteen ws
words_bytes [] = refl
words_bytes (w ∷ ws) =
    let e : record_word (protect_bit w + 2 * parity_bit w) (data_of w / 256) (data_of w % 256) ≡ eighteen w = omega arith in rw (e, words_bytes ws)

pub same_words : (core image : List ℕ) (r : Result (Unit {0}) Refusal) → fits (length core) (length image) ≡ true → image ≡ bytes_of core → SameWords r core image
same_words core image r f e _ =
    let t : all_flags_fit image ≡ true = ap all_flags_fit e ∙ flags_bytes core in (rw (f, t), ap words_of e ∙ words_bytes core)
