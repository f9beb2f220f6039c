-- What a terminal shows of a session, entry by entry, follows from how its entries follow one another.
use Rattle.std.proofs.Common.{◌≡◌, ◌⊎◌, ℕ, Bool, true, false, List, [], ◌∷◌, ◌++◌, length, take, refl, sym, ◌∙◌, ap, subst, inl, inr, Option, Some, None, length-append, arith}
use Rattle.std.specs.Prelude.{not}
use Rattle.std.proofs.lemmas.Bool.{false≢true, true≢false}
use Rattle.std.proofs.lemmas.List.{take-append-le}
use Rattle.tree_trait.specs.Change.{CallLog}
use Rattle.key_screen.specs.Grids.{CellGrid}
use Rattle.session_entries.specs.declared.history.Event.{Event}
use Rattle.session_entries.specs.declared.history.Event.TheVariants.{Key, Look, Sought, Began, Order, Step, Next, Closed}
use Rattle.session_entries.specs.declared.history.Entry.{Entry}
use Rattle.mc_desk.specs.declared.starts.Start.{Start}
use Rattle.mc_desk.specs.Sessions.{IsSession, SessionState}
use Rattle.mc_desk.specs.Redrawing.{draws_anew}
use Rattle.mc_desk.specs.Shown.{DrawsFrame, EventDraws, ShowsOverAny}
use Rattle.mc_desk.specs.DeskDevices.{Put}
use Rattle.mc_desk.specs.ShownEntries.{CameTo, CutsEntry, ShowsEach, ShowsEntry, draws}

take_all : (xs : List ℕ) → take (length xs) xs ≡ xs
take_all [] = refl
take_all (x ∷ xs) = ap (λ ys. x ∷ ys) (take_all xs)

-- an event draws a frame, or leaves what was put
drawn_or_still : (what : Event) (is_anew : Bool) (frame : CellGrid) (shown : ℕ) (before after : Put) → EventDraws what is_anew frame shown before after
    → ((draws what ≡ true) × DrawsFrame is_anew frame shown before after) ⊎ ((draws what ≡ false) × (after ≡ before))
drawn_or_still (Key key now refusals false) is_anew frame shown before after d = inl (refl, d)
drawn_or_still (Key key now refusals true) is_anew frame shown before after d = inr (refl, d.same)
drawn_or_still (Look refusals) is_anew frame shown before after d = inl (refl, d)
drawn_or_still Sought is_anew frame shown before after d = inl (refl, d)
drawn_or_still (Began id plan background) is_anew frame shown before after d = inr (refl, d.same)
drawn_or_still (Order id order) is_anew frame shown before after d = inr (refl, d.same)
drawn_or_still (Step id did) is_anew frame shown before after d = inr (refl, d.same)
drawn_or_still (Next id plan) is_anew frame shown before after d = inr (refl, d.same)
drawn_or_still Closed is_anew frame shown before after d = inr (refl, d.same)

-- what was put before a drawing is a prefix of what was put by then
prefix_of : (is_anew : Bool) (frame : CellGrid) (shown : ℕ) (before after : Put) (all : List ℕ) → DrawsFrame is_anew frame shown before after → after.bytes ≡ Some all
    → (earlier : List ℕ) × (more : List ℕ) × (before.bytes ≡ Some earlier) × (all ≡ earlier ++ more)
prefix_of is_anew frame shown before after all d known = go before.bytes refl
  where
    same : (bytes : List ℕ) → after.bytes ≡ Some bytes → all ≡ bytes
    same bytes is = let both : Some all ≡ Some bytes = sym known ∙ is in cc

    go : (b : Option (List ℕ)) → before.bytes ≡ b → (earlier : List ℕ) × (more : List ℕ) × (before.bytes ≡ Some earlier) × (all ≡ earlier ++ more)
    go None is = absurd (let none = d.untold is in cc)
    go (Some earlier) is =
        elim d.drawn [
          | inl p ↦ let b = p.bytes earlier is in (earlier, b.0, is, same (earlier ++ b.0) b.1)
          | inr c ↦
              let b = c.bytes earlier is in
              elim b.1 [
                | inl still ↦ (earlier, [], is, same earlier still ∙ sym (append_none earlier))
                | inr some ↦ (earlier, take some.1 some.0, is, same (earlier ++ take some.1 some.0) some.2)
              ]
        ]
      where
        append_none : (xs : List ℕ) → xs ++ [] ≡ xs
        append_none [] = refl
        append_none (x ∷ xs) = ap (λ ys. x ∷ ys) (append_none xs)

module _ (start : Option Start) (opening : Option CallLog) (faults : ℕ) where
  -- bytes behind those of an entry leave what it shows
  shows_more : (e : Entry) (older : List Entry) (earlier more : List ℕ) → ShowsEntry start opening faults e older earlier → ShowsEntry start opening faults e older (earlier ++ more)
  shows_more e older earlier more s = record {
    frame = s.frame;
    came = s.came;
    some = let l = length-append earlier more in let had = s.some in omega (arith, l, had);
    shows = subst (λ b. ShowsOverAny b s.frame) (sym (take-append-le e.shown earlier more s.some)) s.shows;
  }

  -- the newest entry, where it draws
  shows_newest : (e : Entry) (older : List Entry) (put_before put : Put) (all : List ℕ) (frame : CellGrid) → CameTo start opening faults e older frame
      → DrawsFrame (draws_anew e.what older) frame e.shown put_before put → put.bytes ≡ Some all → ShowsEntry start opening faults e older all ⊎ ((put.is_cut ≡ true) × CutsEntry start opening faults [] e older all)
  shows_newest e older put_before put all frame came d known = go put_before.bytes refl
    where
      same : (bytes : List ℕ) → put.bytes ≡ Some bytes → bytes ≡ all
      same bytes is = let both : Some bytes ≡ Some all = sym is ∙ known in cc

      go : (b : Option (List ℕ)) → put_before.bytes ≡ b → ShowsEntry start opening faults e older all ⊎ ((put.is_cut ≡ true) × CutsEntry start opening faults [] e older all)
      go None is = absurd (let none = d.untold is in cc)
      go (Some earlier) is =
          elim d.drawn [
            | inl p ↦
                let b = p.bytes earlier is in
                let whole : earlier ++ b.0 ≡ all = same (earlier ++ b.0) b.1 in
                let counted : e.shown ≡ length all = b.2 ∙ ap length whole in
                inl (record {
                  frame = frame;
                  came = came;
                  some = omega (arith, counted);
                  shows = subst (λ n. ShowsOverAny (take n all) frame) (sym counted) (subst (λ x. ShowsOverAny x frame) (sym (take_all all)) (subst (λ x. ShowsOverAny x frame) whole b.3.shows));
                })
            | inr c ↦
                let b = c.bytes earlier is in
                inr (
                  c.cut,
                  record {
                    last = tt;
                    frame = frame;
                    came = came;
                    ended = earlier;
                    counted = b.0;
                    put_is = elim b.1 [ inl still ↦ inl (sym (same earlier still)) | inr some ↦ inr (some.0, some.1, sym (same (earlier ++ take some.1 some.0) some.2), some.3) ];
                  },
                )
          ]

  pub session_shows : (newest : List Entry) (now : SessionState) (all : List ℕ) → IsSession start opening faults newest now → now.put.bytes ≡ Some all
      → ShowsEach start opening faults newest now.put.is_cut all
  session_shows [] now all session known [] e older is drawn = absurd cc
  session_shows [] now all session known (l ∷ later) e older is drawn = absurd cc
  session_shows (first ∷ rest) now all (was, session, enters) known [] e older is drawn =
      let here : first ≡ e = cc in
      let there : rest ≡ older = cc in
      let whole : IsSession start opening faults (first ∷ rest) now = (was, session, enters) in
      let came : CameTo start opening faults first rest _ = record { now = now; session = whole; frame_is = refl } in
      elim (drawn_or_still first.what _ _ first.shown was.put now.put enters.draws) [
        | inl d ↦
            subst (λ o. ShowsEntry start opening faults e o all ⊎ ((now.put.is_cut ≡ true) × CutsEntry start opening faults [] e o all)) there
            (subst (λ x. ShowsEntry start opening faults x rest all ⊎ ((now.put.is_cut ≡ true) × CutsEntry start opening faults [] x rest all)) here
            (shows_newest first rest was.put now.put all _ came d.1 known))
        | inr still ↦ absurd (false≢true (sym still.0 ∙ (ap (λ (x : Entry). draws x.what) here ∙ drawn)))
      ]
  session_shows (first ∷ rest) now all (was, session, enters) known (l ∷ later) e older is drawn =
      let here : first ≡ l = cc in
      let there : rest ≡ later ++ e ∷ older = cc in
      elim (drawn_or_still first.what _ _ first.shown was.put now.put enters.draws) [
        | inl d ↦
            let p = prefix_of _ _ first.shown was.put now.put all d.1 known in
            elim (session_shows rest was p.0 session p.2 later e older there drawn) [
              | inl s ↦ inl (subst (λ b. ShowsEntry start opening faults e older b) (sym p.3) (shows_more e older p.0 p.1 s))
              | inr c ↦ absurd (true≢false (sym c.0 ∙ d.1.uncut))
            ]
        | inr still ↦
            elim (session_shows rest was all session (ap (λ (q : Put). q.bytes) (sym still.1) ∙ known) later e older there drawn) [
              | inl s ↦ inl s
              | inr c ↦
                  inr (
                    ap (λ (q : Put). q.is_cut) still.1 ∙ c.0,
                    let k = c.1 in
                        record {
                          last = (ap (λ (x : Entry). draws x.what) (sym here) ∙ still.0, k.last);
                          frame = k.frame;
                          came = k.came;
                          ended = k.ended;
                          counted = k.counted;
                          put_is = k.put_is;
                        },
                  )
            ]
      ]
