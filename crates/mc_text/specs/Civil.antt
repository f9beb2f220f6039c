-- The date and the time of day, in UTC, of a number of seconds since the Epoch (POSIX.1-2017, 4.16), in the
-- Gregorian calendar as `jiff` counts its days.
use Rattle.std.specs.Prelude.{ℕ, zero, suc, ◌+◌, ◌-◌, ◌/◌, ◌%◌, ◌<◌, ◌≤◌, Bool, nat_le, pos, if◌then◌else◌}
use Rattle.jiff_core.specs.Calendar.{day_count}
use Rattle.mc_text.specs.declared.times.CivilTime.{CivilTime}

-- how many of the numbers from 1 to n pass
unfoldable pub count_to : (ℕ → Bool) → ℕ → ℕ
count_to p zero = 0
count_to p (suc n) = count_to p n + (if p (suc n) then 1 else 0)

-- a day, as `day_count` counts it, of a day counted from 1970-01-01
abbrev pub counted_day : ℕ → ℕ
counted_day day = day_count (pos 1970) 1 1 + day

-- the month has begun by the day
abbrev pub has_begun : ℕ → ℕ → ℕ → Bool
has_begun year month count = nat_le (day_count (pos year) month 1) count

-- the last year up to 2999 that has begun by the day
unfoldable pub year_on : ℕ → ℕ
year_on count = 1970 + count_to (λ k. has_begun (1970 + k) 1 count) 1029

-- its last month that has begun by the day
unfoldable pub month_on : ℕ → ℕ
month_on count = 1 + count_to (λ k. has_begun (year_on count) (1 + k) count) 11

-- and the day's place in the month, from 1
unfoldable pub day_on : ℕ → ℕ
day_on count = count + 1 - day_count (pos (year_on count)) (month_on count) 1

-- the year, month, day, hour and minute
unfoldable pub civil_of : ℕ → CivilTime
civil_of secs =
    let count = counted_day (secs / 86400) in
    record {
      year = year_on count;
      month = month_on count;
      day = day_on count;
      hour = secs % 86400 / 3600;
      minute = secs % 3600 / 60;
    }

-- what the dates of 1970 to 2999 have
pub record IsShownTime (time : CivilTime) : Type 0 where
  pub year : time.year ≤ 2999
  pub month : (1 ≤ time.month) × (time.month ≤ 12)
  pub day : time.day ≤ 31
  pub hour : time.hour < 24
  pub minute : time.minute < 60
