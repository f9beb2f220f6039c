mod ClosedLines
