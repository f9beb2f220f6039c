-- The date that `jiff` gives is the one of the definition.
use Rattle.std.proofs.Common.{◌≡◌, ℕ, zero, suc, ◌+◌, ◌-◌, ◌*◌, ◌/◌, ◌%◌, ◌<◌, ◌≤◌, Bool, true, false, nat_le, refl, sym, ap, ◌∙◌, arith, ⊎_elim, ℤ, pos, negsuc, ◌<ℤ◌, ◌≤ℤ◌, unsigned_abs}
use Rattle.std.proofs.lemmas.Bool.{cases_lt}
use Rattle.std.proofs.lemmas.Bool.Decides.{nat_tests}
use Rattle.std.proofs.lemmas.Int.{by_lt_z}
use Rattle.jiff_core.specs.declared.civil.date.Date.{Date}
use Rattle.jiff_core.specs.declared.civil.time.Time.{Time}
use Rattle.jiff_core.specs.declared.civil.datetime.DateTime.{DateTime}
use Rattle.jiff_core.specs.Calendar.{day_count, IsYear}
use Rattle.jiff_core.specs.Date.{epoch_day}
use Rattle.jiff_core.specs.DateTime.{civil_nanos}
use Rattle.jiff_core.proofs.SignedLemmas.{signed_arith}
use Rattle.jiff_core.proofs.CalendarLemmas.{day_count-epoch, day_count-lt_year, day_count-lt_month, day_count-day, days_from_civil-day_count, days_in_month_bounds}
use Rattle.jiff_core.proofs.MarchLemmas.{day_count-early}
use Rattle.jiff_core.proofs.DateLemmas.{civil}
use Rattle.jiff_core.proofs.DateTimeLemmas.{civil_nanos-parts, time_nanos_bound}
use Rattle.mc_text.specs.Civil.{count_to, counted_day, has_begun, year_on, month_on, day_on, civil_of}

test : (a b : ℕ) → a ≤ b → nat_le a b ≡ true
test a b h = grind (arith, nat_tests)

test_not : (a b : ℕ) → b < a → nat_le a b ≡ false
test_not a b h = grind (arith, nat_tests)

count_to-more : (p : ℕ → Bool) (n : ℕ) → p (suc n) ≡ true → count_to p (suc n) ≡ count_to p n + 1
unfolding count_to
count_to-more p n e = rw e refl

count_to-same : (p : ℕ → Bool) (n : ℕ) → p (suc n) ≡ false → count_to p (suc n) ≡ count_to p n
unfolding count_to
count_to-same p n e = rw e (omega arith)

-- where the numbers up to m pass and the others don't
count_to-is : (p : ℕ → Bool) (m n : ℕ) → m ≤ n → ((k : ℕ) → 1 ≤ k → k ≤ m → p k ≡ true) → ((k : ℕ) → m < k → k ≤ n → p k ≡ false) → count_to p n ≡ m
unfolding count_to
count_to-is p m zero h f g = omega arith
count_to-is p m (suc n) h f g =
    let earlier = count_to-is p n n (omega arith) in
    let same = count_to-is p m n in
    ⊎_elim
    (λ (lt : n < m).
    let top : m ≡ suc n = omega arith in
    let all = earlier (λ k a b. f k a (omega arith)) (λ k a b. absurd (omega arith)) in
    count_to-more p n (f (suc n) (omega arith) (omega arith)) ∙ omega (arith, all))
    (λ (le : m ≤ n).
    let some = same le f (λ k a b. g k a (omega arith)) in
    count_to-same p n (g (suc n) (omega arith) (omega arith)) ∙ some)
    (cases_lt n m)

-- ---- a date, and the months and years that have begun by it

count_of : Date → ℕ
count_of d = day_count d.year d.month d.day

month_begun : (d : Date) (m : ℕ) → 1 ≤ m → m ≤ d.month → day_count d.year m 1 ≤ count_of d
unfolding count_of
month_begun d m low high =
    let c = civil d in
    ⊎_elim
    (λ (lt : m < d.month). omega (arith, day_count-lt_month d.year m 1 d.month d.day (c.0, (omega arith, omega (arith, c.1)), (omega arith, omega (arith, days_in_month_bounds d.year m))) c.2.0 lt))
    (λ (ge : d.month ≤ m). let e : m ≡ d.month = omega arith in rw e (omega (arith, day_count-day d.year d.month 1 d.day (omega arith) c.2.0, c.2)))
    (cases_lt m d.month)

month_ahead : (d : Date) (m : ℕ) → d.month < m → count_of d < day_count d.year m 1
unfolding count_of
month_ahead d m lt = day_count-lt_month d.year d.month d.day m 1 (civil d) (omega arith) lt

year_begun : (d : Date) (y : ℤ) → IsYear y → y ≤ℤ d.year → day_count y 1 1 ≤ count_of d
unfolding count_of
year_begun d y is le =
    let c = civil d in
    by_lt_z y d.year
    (λ lt. omega (arith, day_count-lt_year y 1 1 d.year d.month d.day (is, (omega arith, omega arith), (omega arith, omega (arith, days_in_month_bounds y 1))) c.2.0 lt))
    (λ ge. let e : y ≡ d.year = omega (arith, signed_arith) in rw e (month_begun d 1 (omega arith) c.1.0))

year_ahead : (d : Date) (y : ℤ) → d.year <ℤ y → count_of d < day_count y 1 1
unfolding count_of
year_ahead d y lt = day_count-lt_year d.year d.month d.day y 1 1 (civil d) (omega arith) lt

day_count-3000 : day_count (pos 3000) 1 1 ≡ 4_748_153
day_count-3000 = day_count-early (pos 3000) 12999 1 1 refl (omega arith) (omega arith) (omega arith)

-- the years from 1970 to 2999
record IsShown (d : Date) (y : ℕ) : Type 0 where
  year : d.year ≡ pos y
  low : 1970 ≤ y
  high : y ≤ 2999

positive : (z : ℤ) → pos 0 ≤ℤ z → z ≡ pos (unsigned_abs z)
positive (pos n) h = refl
positive (negsuc n) h = absurd (omega (arith, signed_arith, h))

shown : (d : Date) → 4_371_953 ≤ count_of d → count_of d < 4_748_153 → IsShown d (unsigned_abs d.year)
shown d from to =
    let low : pos 1970 ≤ℤ d.year =
    by_lt_z d.year (pos 1970) (λ lt. absurd (omega (arith, year_ahead d (pos 1970) lt, day_count-epoch))) (λ ge. ge) in
    let high : d.year <ℤ pos 3000 =
    by_lt_z d.year (pos 3000) (λ lt. lt)
    (λ ge. absurd (omega (arith, year_begun d (pos 3000) (omega (arith, signed_arith), omega (arith, signed_arith)) ge, day_count-3000))) in
    let year = positive d.year (omega (arith, signed_arith, low)) in
    record { year = year; low = omega (arith, signed_arith, low, year); high = omega (arith, signed_arith, high, year) }

year_on-is : (d : Date) (y : ℕ) → IsShown d y → year_on (count_of d) ≡ y
unfolding year_on
year_on-is d y h =
    let p : ℕ → Bool = λ k. has_begun (1970 + k) 1 (count_of d) in
    let year = h.year in
    let low = h.low in
    let high = h.high in
    let n = count_to-is p (y - 1970) 1029 (omega arith)
    (λ k a b. test (day_count (pos (1970 + k)) 1 1) (count_of d)
    (year_begun d (pos (1970 + k)) (omega (arith, signed_arith), omega (arith, signed_arith)) (omega (arith, signed_arith))))
    (λ k a b. test_not (day_count (pos (1970 + k)) 1 1) (count_of d) (year_ahead d (pos (1970 + k)) (omega (arith, signed_arith)))) in
    omega (arith, n)

month_on-is : (d : Date) (y : ℕ) → IsShown d y → month_on (count_of d) ≡ d.month
unfolding month_on
month_on-is d y h =
    let at : pos (year_on (count_of d)) ≡ d.year = ap pos (year_on-is d y h) ∙ sym h.year in
    let c = (civil d).1 in
    let p : ℕ → Bool = λ k. has_begun (year_on (count_of d)) (1 + k) (count_of d) in
    let n = count_to-is p (d.month - 1) 11 (omega arith)
    (λ k a b. rw at (test (day_count d.year (1 + k) 1) (count_of d) (month_begun d (1 + k) (omega arith) (omega arith))))
    (λ k a b. rw at (test_not (day_count d.year (1 + k) 1) (count_of d) (month_ahead d (1 + k) (omega arith)))) in
    omega (arith, n)

day_on-is : (d : Date) (y : ℕ) → IsShown d y → day_on (count_of d) ≡ d.day
unfolding day_on count_of
day_on-is d y h =
    let at : pos (year_on (count_of d)) ≡ d.year = ap pos (year_on-is d y h) ∙ sym h.year in
    let c = civil d in
    rw (at, month_on-is d y h) (omega (arith, day_count-day d.year d.month d.day 1 c.2.0 (omega arith), c.2))

-- ---- a datetime

pub record IsCivilOf (secs : ℕ) (dt : DateTime) : Type 0 where
  pub year : dt.date.year ≡ pos (civil_of secs).year
  pub small : (civil_of secs).year ≤ 2999
  pub month : dt.date.month ≡ (civil_of secs).month
  pub day : dt.date.day ≡ (civil_of secs).day
  pub hour : dt.time.hour ≡ (civil_of secs).hour
  pub minute : dt.time.minute ≡ (civil_of secs).minute
  pub bounds : ((1 ≤ dt.date.month) × (dt.date.month ≤ 12)) × (dt.date.day ≤ 31) × (dt.time.hour < 24) × (dt.time.minute < 60)

day_of-secs : (secs : ℕ) (dt : DateTime) → civil_nanos dt ≡ pos (secs * 1_000_000_000) → epoch_day dt.date ≡ pos (secs / 86400)
day_of-secs secs dt e = omega (arith, signed_arith, civil_nanos-parts dt, time_nanos_bound dt.time)

time_of-secs : (secs : ℕ) (dt : DateTime) → civil_nanos dt ≡ pos (secs * 1_000_000_000) → dt.time.hour * 3600 + dt.time.minute * 60 + dt.time.second ≡ secs % 86400
time_of-secs secs dt e = omega (arith, signed_arith, civil_nanos-parts dt, time_nanos_bound dt.time)

hour_of-secs : (secs : ℕ) (t : Time) → t.hour * 3600 + t.minute * 60 + t.second ≡ secs % 86400 → (t.hour ≡ secs % 86400 / 3600) × (t.minute ≡ secs % 3600 / 60)
hour_of-secs secs t e = (omega arith, omega arith)

counted-day : (d : Date) (day : ℕ) → epoch_day d ≡ pos day → count_of d ≡ counted_day day
unfolding count_of
counted-day d day e = omega (arith, signed_arith, days_from_civil-day_count d.year d.month d.day, e, day_count-epoch)

bounds : (d : Date) (t : Time) → ((1 ≤ d.month) × (d.month ≤ 12)) × (d.day ≤ 31) × (t.hour < 24) × (t.minute < 60)
bounds d t = let c = civil d in (c.1, omega (arith, c.2, days_in_month_bounds d.year d.month), omega arith, omega arith)

pub civil_of-is : (secs : ℕ) (dt : DateTime) → secs ≤ 32_503_679_999 → civil_nanos dt ≡ pos (secs * 1_000_000_000) → IsCivilOf secs dt
unfolding civil_of
civil_of-is secs dt h e =
    let count = counted-day dt.date (secs / 86400) (day_of-secs secs dt e) in
    let is = shown dt.date (omega (arith, count, day_count-epoch)) (omega (arith, count, day_count-epoch)) in
    let year = year_on-is dt.date _ is in
    let clock = hour_of-secs secs dt.time (time_of-secs secs dt e) in
    record {
      year = is.year ∙ ap pos (sym year ∙ ap year_on count);
      small = rw (← count, year) is.high;
      month = sym (month_on-is dt.date _ is) ∙ ap month_on count;
      day = sym (day_on-is dt.date _ is) ∙ ap day_on count;
      hour = clock.0;
      minute = clock.1;
      bounds = bounds dt.date dt.time;
    }
