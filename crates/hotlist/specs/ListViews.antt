-- The list that a hotlist holds.
use Rattle.hotlist.specs.declared.list.Hotlist.{Hotlist}
use Rattle.hotlist.specs.HotLists.{HotList, list_of}

abbrev pub list_in : Hotlist → HotList
list_in hotlist = list_of hotlist.items.items
