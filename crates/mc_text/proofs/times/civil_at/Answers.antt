use Rattle.std.proofs.Common.{◌≡◌, arith, refl}
use Rattle.jiff_core.proofs.SignedLemmas.{signed_arith}
use Rattle.jiff_core.proofs.DateLemmas.{civil}
use Rattle.mc_text.specs.Civil.{civil_of}
use Rattle.mc_text.proofs.Civil.{civil_of-is}
use Rattle.mc_text.proofs.times.civil_at.Goals as goal

pub year_number-year-requires : goal.year_number-year-requires
year_number-year-requires c =
    let is = civil_of-is c.args.secs c.datetime_at-shown.result c.requires c.datetime_at-shown.ensures in
    omega (arith, signed_arith, is.year, is.small, c.year.ensures)

pub returns-clause-value : goal.returns-clause-value
returns-clause-value c =
    let is = civil_of-is c.args.secs c.datetime_at-shown.result c.requires c.datetime_at-shown.ensures in
    let year : c.year_number-year.result ≡ (civil_of c.args.secs).year = omega (arith, signed_arith, is.year, is.small, c.year.ensures) in
    let month : c.small_number.result ≡ (civil_of c.args.secs).month = omega (arith, signed_arith, is.month, c.month.ensures, civil c.datetime_at-shown.result.date) in
    let day : c.small_number-2.result ≡ (civil_of c.args.secs).day = omega (arith, signed_arith, is.day, c.day.ensures) in
    let hour : c.small_number-3.result ≡ (civil_of c.args.secs).hour = omega (arith, signed_arith, is.hour, c.hour.ensures) in
    let minute : c.small_number-4.result ≡ (civil_of c.args.secs).minute = omega (arith, signed_arith, is.minute, c.minute.ensures) in
    rw (year, month, day, hour, minute) refl

pub returns-clause-shown : goal.returns-clause-shown
returns-clause-shown c =
    let is = civil_of-is c.args.secs c.datetime_at-shown.result c.requires c.datetime_at-shown.ensures in
    record {
      year = omega (arith, signed_arith, is.year, is.small, c.year.ensures);
      month = omega (arith, signed_arith, is.bounds.0, c.month.ensures);
      day = omega (arith, signed_arith, is.bounds.1, c.day.ensures);
      hour = omega (arith, signed_arith, is.bounds.2, c.hour.ensures);
      minute = omega (arith, signed_arith, is.bounds.3, c.minute.ensures);
    }
