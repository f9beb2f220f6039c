-- The keys that a byte completes are worked, all or but the last.
use Rattle.std.proofs.Common.{rules, ◌≡◌, ◌+◌, ◌∷◌, ◌++◌, [], false, None, ap, sym, subst, ◌∙◌}
use Rattle.key_screen.specs.DecodedKeys.{decoded_keys, keys_fed}
use Rattle.mc_desk.specs.KeysAndFaults.{keys_in}
use Rattle.mc_desk.specs.Desks.{Seen}
use Rattle.mc_desk.specs.Sessions.{MayWork}
use Rattle.mc_desk.proofs.Stopping.{first_may}
use Rattle.mc_desk.proofs.Taking.{takes_none, takes_one, takes_two, lacks_second}
use Rattle.mc_desk.proofs.session.Session.byte.Goals as goal

pub work_key-reply-requires-clause-sought : goal.work_key-reply-requires-clause-sought
work_key-reply-requires-clause-sought g c =
    let old = c.args.self.now in
    let now : decoded_keys (old.pending ++ c.args.byte ∷ []) ≡ record { keys = keys_fed c.feed-first.result; rest = c.feed-first.new.self } =
    subst (λ p. decoded_keys (p ++ c.args.byte ∷ []) ≡ record { keys = keys_fed c.feed-first.result; rest = c.feed-first.new.self }) (ap (λ (d : Seen). d.pending) c.self.view_is) c.feed-first.ensures.keys in
    let unclosed : old.tally.closed ≡ false = search rules in
    let unasked : old.quit ≡ false = search rules in
    let may : MayWork c.in-Some-first.first old.screen = first_may old c.args.byte c.feed-first.result c.feed-first.new.self c.in-Some-first.first c.requires.sought unclosed unasked now c.in-Some-first.is in
    subst (λ (d : Seen). MayWork c.in-Some-first.first d.screen) (sym c.self.view_is) may

pub returns-in_default-first-clause-keys : goal.returns-in_default-first-clause-keys
returns-in_default-first-clause-keys g c goes bytes taken =
    let old = c.args.self.now in
    let now : decoded_keys (old.pending ++ c.args.byte ∷ []) ≡ record { keys = keys_fed c.feed-first.result; rest = c.feed-first.new.self } =
    subst (λ p. decoded_keys (p ++ c.args.byte ∷ []) ≡ record { keys = keys_fed c.feed-first.result; rest = c.feed-first.new.self }) (ap (λ (d : Seen). d.pending) c.self.view_is) c.feed-first.ensures.keys in
    let first : c.feed-first.result.first ≡ None = search rules in
    let second : c.feed-first.result.second ≡ None = search rules in
    let same = c.still-in_default-first.ensures.same in
    let more : c.in-Some.taken ≡ old.taken + 1 = search rules in
    takes_none bytes c.args.byte old c.still-in_default-first.new.self c.feed-first.result c.feed-first.new.self taken now (ap (λ (d : Seen). d.pending) same) (ap (λ (d : Seen). d.taken) same ∙ more)
    c.still-in_default-first.result first second (ap (λ (d : Seen). keys_in d.newest) same ∙ ap keys_in (c.reserve.ensures.same ∙ ap (λ (d : Seen). d.newest) c.self.view_is))

pub returns-in_default-second-clause-keys : goal.returns-in_default-second-clause-keys
returns-in_default-second-clause-keys g c goes bytes taken =
    let old = c.args.self.now in
    let now : decoded_keys (old.pending ++ c.args.byte ∷ []) ≡ record { keys = keys_fed c.feed-first.result; rest = c.feed-first.new.self } =
    subst (λ p. decoded_keys (p ++ c.args.byte ∷ []) ≡ record { keys = keys_fed c.feed-first.result; rest = c.feed-first.new.self }) (ap (λ (d : Seen). d.pending) c.self.view_is) c.feed-first.ensures.keys in
    let second : c.feed-first.result.second ≡ None = search rules in
    let counted : c.work_key-reply.new.self.taken ≡ old.taken + 1 = search rules in
    takes_one bytes c.args.byte old c.work_key-reply.new.self c.feed-first.result c.feed-first.new.self taken now c.work_key-reply.ensures.pending counted c.work_key-reply.result c.in-Some-first.first c.in-Some-first.is second
    (c.work_key-reply.ensures.keys ∙ ap (λ es. keys_in es ++ c.in-Some-first.first ∷ []) (c.reserve.ensures.same ∙ ap (λ (d : Seen). d.newest) c.self.view_is))

pub returns-in-Err-clause-keys : goal.returns-in-Err-clause-keys
returns-in-Err-clause-keys g c goes bytes taken =
    let old = c.args.self.now in
    let now : decoded_keys (old.pending ++ c.args.byte ∷ []) ≡ record { keys = keys_fed c.feed-first.result; rest = c.feed-first.new.self } =
    subst (λ p. decoded_keys (p ++ c.args.byte ∷ []) ≡ record { keys = keys_fed c.feed-first.result; rest = c.feed-first.new.self }) (ap (λ (d : Seen). d.pending) c.self.view_is) c.feed-first.ensures.keys in
    let counted : c.work_key-reply.new.self.taken ≡ old.taken + 1 = search rules in
    lacks_second bytes c.args.byte old c.work_key-reply.new.self c.feed-first.result c.feed-first.new.self taken now c.work_key-reply.ensures.pending counted c.in-Err.error c.in-Some-first.first c.in-Some-second.second
    c.in-Some-first.is c.in-Some-second.is
    (c.work_key-reply.ensures.keys ∙ ap (λ es. keys_in es ++ c.in-Some-first.first ∷ []) (c.reserve.ensures.same ∙ ap (λ (d : Seen). d.newest) c.self.view_is)) c.in-Err.ensures.shut

pub returns-in-Ok-clause-keys : goal.returns-in-Ok-clause-keys
returns-in-Ok-clause-keys g c goes bytes taken =
    let old = c.args.self.now in
    let now : decoded_keys (old.pending ++ c.args.byte ∷ []) ≡ record { keys = keys_fed c.feed-first.result; rest = c.feed-first.new.self } =
    subst (λ p. decoded_keys (p ++ c.args.byte ∷ []) ≡ record { keys = keys_fed c.feed-first.result; rest = c.feed-first.new.self }) (ap (λ (d : Seen). d.pending) c.self.view_is) c.feed-first.ensures.keys in
    let counted : c.work_key.new.self.taken ≡ old.taken + 1 = search rules in
    takes_two bytes c.args.byte old c.work_key.new.self c.feed-first.result c.feed-first.new.self taken now (c.work_key.ensures.pending ∙ c.work_key-reply.ensures.pending) counted c.work_key.result c.in-Some-first.first
    c.in-Some-second.second c.in-Some-first.is c.in-Some-second.is
    (c.work_key.ensures.keys ∙ ap (λ ks. ks ++ c.in-Some-second.second ∷ [])
    (c.work_key-reply.ensures.keys ∙ ap (λ es. keys_in es ++ c.in-Some-first.first ∷ []) (c.reserve.ensures.same ∙ ap (λ (d : Seen). d.newest) c.self.view_is)))
