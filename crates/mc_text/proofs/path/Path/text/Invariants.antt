-- The text of the names so far, which reads as they are.
use Rattle.std.proofs.Common.{◌≡◌, take, reverse, None}
use Rattle.std.specs.String.{string_bytes}
use Rattle.mc_text.specs.Routes.{spelled_route, route_of, bad_component, components_of}
use Rattle.mc_text.proofs.path.Path.text.Given as goal

abbrev pub invariant-loop-name : goal.invariant-loop-name
invariant-loop-name l =
    record {
      text : string_bytes l.text ≡ spelled_route (reverse (take l.name-index l.name-items));
      names : route_of (string_bytes l.text) ≡ reverse (take l.name-index l.name-items);
      fault : bad_component 0 (components_of (string_bytes l.text)) ≡ None;
    }
