mod Gaps
