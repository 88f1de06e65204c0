mod Shares
