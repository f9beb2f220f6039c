-- The word was cut off where its size says.
use Rattle.std.proofs.Common.{◌≡◌, ◌<◌, false, sym, ◌∙◌, subst, arith}
use Rattle.panel_listing.specs.FormatTexts.{separates}
use Rattle.panel_listing.specs.Words.{word_size}
use Rattle.panel_listing.proofs.FormatLemmas.{next-words, word-some}
use Rattle.panel_listing.proofs.words.next_word.Goals as goal

pub returns-then-not-separates : goal.returns-then-not-separates
returns-then-not-separates c =
    let byte = c.in-Some.byte.now in
    let behind = c.in-Some.behind.now in
    let rest = c.loop-byte.rest.now in
    let size = c.word_size.result in
    let is = c.in-Some.ensures.cases.0 in
    let inside : separates byte ≡ false = sym c.separates.ensures ∙ c.if-not-separates.true in
    let some : 0 < word_size rest = subst (λ line. 0 < word_size line) (sym is) (word-some byte behind) in
    record {
      words = next-words c.args.at c.loop-byte.from byte size c.args.text.now rest behind c.split_at.result.0.now c.split_at.result.1.now
          c.loop-byte.invariant.words is inside c.word_size.ensures.size c.split_at.ensures.front c.split_at.ensures.back c.split_at.ensures.front_len;
      place = omega (arith, c.loop-byte.invariant.place, c.split_at.ensures.front_len, c.split_at.ensures.back_len);
      shorter = omega (arith, some, c.word_size.ensures.size, c.loop-byte.invariant.shorter, c.split_at.ensures.back_len);
    }
