use Rattle.std.proofs.Common.{◌≡◌, ℕ, not, ◌&&◌, eqb, ltb, get_or, arith, rules}
use borrow.Author.Tests.{tests}
use Rattle.std.specs.List.{position_or_len}
use Rattle.std.proofs.lemmas.List.{same_lists}
use Rattle.levels.specs.Standing.{is_masked}
use Rattle.levels.specs.declared.state.LevelWish.{LevelWish}
use Rattle.levels.proofs.Walks.{first_or_length, from_fn_at, standing_at, how_long}
use Rattle.levels.proofs.state.Service.standing.Goals as goal

pub returns : goal.returns
returns c =
    let free = not c.args.self.now.internal in
    let ss = c.args.self.now.levels in
    let ws = c.args.words.now in
    let m = c.args.masks.now in
    let first : c.unwrap_or-serving.result ≡ position_or_len (λ on. on) ss =
    rw (c.unwrap_or-serving.ensures, c.highest_level.ensures) (first_or_length (λ on. on) ss 24 (omega arith)) in
    let wish : ℕ → LevelWish = λ k. record { level = k; wish = (free && ltb k c.unwrap_or-serving.result) && (not (is_masked m k) && not (eqb (get_or ws k 0) 0)) } in
    let long = c.from_fn.ensures.items.long in
    same_lists _ _ (omega (arith, how_long)) (λ k d l.
    rw (standing_at m free ss ws k d (omega arith) (omega arith), ← first) (from_fn_at wish c.from_fn.ensures.items (λ k y q e. search (rules, tests)) k d (omega arith)))
